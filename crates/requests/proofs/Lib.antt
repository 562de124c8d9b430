-- Laws that belong to no one function.
pub mod Ways
pub mod Whole
pub mod Longest
pub mod Asked
