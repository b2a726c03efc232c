pub mod Waits
pub mod Pairs
pub mod Loop
pub mod Merging
