-- Laws that belong to no one function.
pub mod Turn
pub mod Looked
pub mod Counted
