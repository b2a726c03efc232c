pub mod Tests
pub mod Elements
pub mod Strides
pub mod Pairing
pub mod Choosing
pub mod Wrapping
