pub mod Outcome
pub mod Refusals
pub mod Memory
pub mod Exactly
