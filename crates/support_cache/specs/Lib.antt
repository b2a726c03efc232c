pub mod Nodes
pub mod Cached
