pub mod Ending
pub mod Ahead
pub mod Answering
pub mod Outside
pub mod Framing
pub mod Starting
pub mod Roots
pub mod Room
