pub mod Eights
pub mod Prefix
