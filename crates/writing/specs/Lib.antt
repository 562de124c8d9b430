pub mod Notify
pub mod Parts
pub mod Wrote
