-- Laws that belong to no one function.
pub mod Bits
pub mod EightOctets
pub mod Windows
