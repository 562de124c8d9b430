pub mod Requests
pub mod Events
pub mod Reordering
