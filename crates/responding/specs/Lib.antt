pub mod Respond
pub mod Put
pub mod Longest
