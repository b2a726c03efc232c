pub mod Nodes
pub mod Loading
