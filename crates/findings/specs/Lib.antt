pub mod Seen
pub mod Counted
pub mod With
