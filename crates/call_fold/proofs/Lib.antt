pub mod Lists
pub mod Nexts
pub mod Folds
