pub mod Ask
pub mod Draft
pub mod Fits
pub mod Wanted
