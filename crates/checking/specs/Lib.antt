pub mod Checks
pub mod Lookup
