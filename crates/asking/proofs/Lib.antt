-- Laws that belong to no one function.
pub mod Fitting
pub mod NoNats
pub mod Listed
