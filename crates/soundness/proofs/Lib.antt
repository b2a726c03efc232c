pub mod Entry
pub mod Entries
pub mod Chaining
pub mod Owning
pub mod Every
