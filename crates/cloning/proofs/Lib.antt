pub mod Passed
pub mod Cloned
