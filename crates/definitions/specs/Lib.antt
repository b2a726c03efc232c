-- Document 01 as definitions, in its order; the calls, which stand first there, need all the others and stand last here.
pub mod If
pub mod Limits
pub mod Usage
pub mod Command
pub mod Stream
pub mod Table
pub mod Containment
pub mod Support
pub mod Place
pub mod Sound
pub mod Calls
pub mod Inner
pub mod Requests
