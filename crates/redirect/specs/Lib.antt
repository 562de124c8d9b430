pub mod Wire
pub mod Rooms
pub mod Identity
pub mod Read
pub mod Write
pub mod Gateway
