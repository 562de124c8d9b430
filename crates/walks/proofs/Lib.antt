-- What loops over a list make of it, and what a test chooses.
pub mod Alike
pub mod Choices
pub mod Upto
