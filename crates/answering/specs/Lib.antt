pub mod Core
pub mod Request
