-- Laws that belong to no one function.
pub mod Decisions
pub mod Cores
pub mod Ways
pub mod Numbers
pub mod Marks
pub mod Responses
