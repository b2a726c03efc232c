pub mod Denoting
pub mod Linking
pub mod Skipping
pub mod Searching
pub mod Filling
pub mod Pasts
pub mod Parting
pub mod LastEnding
