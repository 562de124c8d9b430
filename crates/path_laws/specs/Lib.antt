pub mod Chosen
pub mod Agree
pub mod Bounded
pub mod ColumnRuns
pub mod Refused
