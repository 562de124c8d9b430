-- Laws that belong to no one function.
pub mod Recent
pub mod Last
pub mod Count
pub mod Keep
