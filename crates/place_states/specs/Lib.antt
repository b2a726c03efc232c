pub mod Refusals
pub mod Calls
pub mod Continuation
pub mod Finished
pub mod States
pub mod Starts
pub mod PairResult
