pub mod Kinds
pub mod Slots
pub mod Entries
pub mod Writing
