pub mod Deciding
pub mod Typing
pub mod Keeping
pub mod Beginning
