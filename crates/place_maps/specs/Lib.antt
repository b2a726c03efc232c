pub mod Runs
pub mod Joining
