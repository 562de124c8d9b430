pub mod Written
pub mod Longest
pub mod Told
