pub mod Opening
pub mod Calls
pub mod Changes
pub mod Tables
pub mod Opened
pub mod View
