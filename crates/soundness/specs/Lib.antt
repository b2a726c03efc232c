pub mod Own
pub mod Preorder
