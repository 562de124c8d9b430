pub mod Clone
pub mod Looked
