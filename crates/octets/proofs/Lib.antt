-- Laws that belong to no one function.
pub mod Small
pub mod Pad
pub mod Zip
pub mod Tests
pub mod Mapped
pub mod Places
pub mod Below
pub mod Checks
pub mod Rooms
pub mod Iterators
pub mod Same
