pub mod Chain
pub mod Ends
pub mod Told
pub mod Lowest
pub mod Six
