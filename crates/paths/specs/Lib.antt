pub mod Limits
pub mod Update
pub mod Calls
pub mod Choice
pub mod Columns
pub mod Best
