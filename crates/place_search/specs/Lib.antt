pub mod Numbers
pub mod Table
pub mod Parts
pub mod Seeking
pub mod Cutting
