pub mod Held
pub mod Standing
pub mod Turns
