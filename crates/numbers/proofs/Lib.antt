pub mod Places
pub mod Numbers
pub mod Widths
pub mod Parts
