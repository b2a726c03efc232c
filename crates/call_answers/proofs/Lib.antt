pub mod Copying
pub mod Giving
pub mod Finishing
pub mod Keeping
pub mod Reaching
