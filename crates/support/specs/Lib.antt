pub mod Askable
pub mod Supported
pub mod Cache
