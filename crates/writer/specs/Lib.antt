pub mod Calls
pub mod Inner
pub mod Runs
