pub mod ClonePlain
pub mod CloneTrips
pub mod Elsewhere
