pub mod Calls
pub mod Isolation
pub mod Shares
