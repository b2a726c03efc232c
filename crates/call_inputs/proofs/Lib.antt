pub mod Types
pub mod Refusals
pub mod Meeting
pub mod Accepting
pub mod SideBySide
pub mod Lending
pub mod FirstBytes
