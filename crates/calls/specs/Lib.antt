pub mod Received
pub mod Roots
pub mod Loaded
pub mod Promised
