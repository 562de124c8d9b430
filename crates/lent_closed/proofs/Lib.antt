-- Laws of one record.
pub mod Stays
