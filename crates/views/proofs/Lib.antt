-- Laws of the view of the tables.
pub mod View
pub mod Own
pub mod BySpi
pub mod Closing
