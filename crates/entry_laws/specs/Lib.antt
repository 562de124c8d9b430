pub mod RoundTrips
pub mod Sight
