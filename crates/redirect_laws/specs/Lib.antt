pub mod RoundTrips
pub mod Decided
pub mod Sequences
pub mod Tallied
pub mod Examples
