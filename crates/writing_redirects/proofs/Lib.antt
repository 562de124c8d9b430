-- Laws that belong to no one function.
pub mod Short
pub mod Written
