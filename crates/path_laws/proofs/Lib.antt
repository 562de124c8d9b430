-- Which path is chosen, what a refusal leaves, calls on columns as calls on paths, and the range of both numbers.
pub mod FloatOrder
pub mod Chosen
pub mod Refused
pub mod Within
pub mod Operations
pub mod Updates
pub mod Run
pub mod Bounded
pub mod Found
pub mod NoneHeard
pub mod Agree
pub mod ColumnRuns
pub mod Examples
