pub mod Handle
pub mod Looked
