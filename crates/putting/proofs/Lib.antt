-- Laws that belong to no one function.
pub mod Addresses
pub mod Asked
pub mod Tail
