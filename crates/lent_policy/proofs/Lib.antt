-- A policy past the end.
pub mod Past
