pub mod Payload
pub mod Spi
