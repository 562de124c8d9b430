-- The laws of the two notifications of a clone, written and read.
pub mod Alone
pub mod OneNotify
pub mod Trips
pub mod Elsewhere
