pub mod Text
pub mod Chosen
pub mod Puts
