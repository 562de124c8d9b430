pub mod Routability
pub mod Ending
