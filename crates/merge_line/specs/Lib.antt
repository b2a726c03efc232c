pub mod Frame
pub mod Parts
pub mod Answered
pub mod Put
