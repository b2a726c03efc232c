pub mod Records
pub mod Usages
