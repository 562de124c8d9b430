pub mod Traces
pub mod RoundTrips
