pub mod Ending
pub mod Writing
pub mod Putting
pub mod Filed
