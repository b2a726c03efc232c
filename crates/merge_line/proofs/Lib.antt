pub mod Putting
pub mod Framing
pub mod Showing
pub mod Lengths
pub mod Printing
pub mod Sanity
