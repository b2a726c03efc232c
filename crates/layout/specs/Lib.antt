pub mod Bytes
pub mod Values
pub mod Located
pub mod Containing
