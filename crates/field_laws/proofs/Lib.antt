-- Laws that belong to no one function.
pub mod Parts
pub mod Written
pub mod Told
pub mod RoundTrips
pub mod Sight
