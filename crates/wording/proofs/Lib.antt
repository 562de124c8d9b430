pub mod Digits
pub mod HexDigits
pub mod Placed
pub mod Puts
