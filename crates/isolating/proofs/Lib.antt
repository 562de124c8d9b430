-- Laws that belong to no one function.
pub mod Seen
pub mod Kept
pub mod Shares
