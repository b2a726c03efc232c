pub mod Words
pub mod Widths
