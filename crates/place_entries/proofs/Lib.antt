pub mod Resuming
pub mod Steps
pub mod Starts
