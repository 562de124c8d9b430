-- Laws that belong to no one function.
pub mod Consistent
pub mod Lookup
pub mod Stored
pub mod Opens
pub mod Closes
pub mod Lists
pub mod Checks
pub mod Requests
pub mod Responses
pub mod Cloned
pub mod Marked
pub mod Reached
pub mod PairMoves
pub mod Deletion
pub mod Alone
pub mod Undone
