-- Laws that belong to no one function.
pub mod Lookup
pub mod TableCalls
pub mod Requests
pub mod Responses
pub mod Clones
pub mod Decides
pub mod Theorem
pub mod Elsewhere
pub mod Shares
pub mod Tight
pub mod Needed
