pub mod Limits
pub mod Exchange
pub mod Times
