-- Proofs of what `specs/` states.
pub mod Parsed
pub mod RoundTrips
pub mod Decided
pub mod Last
pub mod Sparse
pub mod Sequences
pub mod Tallied
pub mod Examples
