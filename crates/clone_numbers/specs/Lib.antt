pub mod CloneNumbers
