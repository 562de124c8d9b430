pub mod Reply
pub mod Change
