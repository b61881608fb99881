pub mod Ranges
pub mod Taking
pub mod Bounds
pub mod Deciding
pub mod Whole
pub mod Enough
pub mod Refusals
pub mod Accepting
