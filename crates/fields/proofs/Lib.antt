-- Laws that belong to no one function.
pub mod Prefix
pub mod Sized
pub mod ReadsTo
pub mod Run
pub mod Lists
pub mod Rooms
pub mod Copies
pub mod Puts
