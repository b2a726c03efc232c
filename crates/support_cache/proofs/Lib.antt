pub mod Roots
pub mod Staying
pub mod Linked
pub mod Forgetting
pub mod Marking
