pub mod Sound
pub mod Marked
pub mod Checking
