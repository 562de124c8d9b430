-- Laws that belong to no one function.
pub mod Calls
pub mod Steps
pub mod Responses
pub mod Events
pub mod Winner
pub mod Sound
pub mod Freed
pub mod Held
pub mod Owned
pub mod Theorem
