pub mod Numbers
pub mod Marks
pub mod Responses
