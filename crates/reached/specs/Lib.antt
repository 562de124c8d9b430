pub mod WellFormed
pub mod Reached
pub mod Undone
pub mod PairMoves
pub mod Deletion
pub mod Cloned
