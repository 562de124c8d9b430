-- Laws that belong to no one function.
pub mod RoundTrips
pub mod Sight
