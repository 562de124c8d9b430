pub mod Leb128
pub mod RoundTrips
pub mod Within
