-- Laws that belong to no one function.
pub mod Looked
pub mod Received
pub mod Counted
