-- Laws that belong to no one function.
pub mod Orders
pub mod Answers
pub mod Latest
