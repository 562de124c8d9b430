-- Laws that belong to no one function.
pub mod Changed
pub mod Lengths
pub mod Zeros
