-- Laws that belong to no one function.
pub mod Chain
pub mod Scan
pub mod Step
pub mod Whole
pub mod Count
pub mod Ordinal
pub mod Kept
pub mod Cookie
pub mod Errors
pub mod Refused
pub mod Told
pub mod Lowest
pub mod Begun
