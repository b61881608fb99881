pub mod Pairs
pub mod Exactly
