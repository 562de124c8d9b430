-- Laws that belong to no one function.
pub mod Notifies
pub mod Payloads
pub mod Gathered
pub mod Structs
pub mod Reading
pub mod Pairs
pub mod Staged
pub mod FirstTrip
pub mod Offsets
pub mod Parsed
pub mod Ranked
pub mod Data
pub mod Asked
pub mod Plainly
pub mod Ordered
pub mod SecondTrip
pub mod Answered
