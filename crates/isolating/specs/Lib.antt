pub mod State
pub mod Reached
pub mod Changes
