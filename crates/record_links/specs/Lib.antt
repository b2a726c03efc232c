pub mod Standing
pub mod Rows
pub mod Frames
pub mod Ranks
