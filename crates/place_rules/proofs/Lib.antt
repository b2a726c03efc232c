pub mod TakingResults
pub mod Sizes
pub mod Begun
