pub mod Writing
pub mod Buffers
pub mod Decimals
pub mod Lines
pub mod Sharing
pub mod Room
pub mod Repeating
pub mod ReadingBack
