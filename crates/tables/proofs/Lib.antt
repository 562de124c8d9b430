-- Laws that belong to no one function.
pub mod Cases
pub mod Changed
pub mod Lookup
