pub mod Writing
pub mod Copying
pub mod Usages
