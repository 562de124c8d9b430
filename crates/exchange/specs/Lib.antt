pub mod Plain
pub mod RoundTrips
pub mod Exchange
