pub mod Head
pub mod Found
pub mod Walk
pub mod Window
