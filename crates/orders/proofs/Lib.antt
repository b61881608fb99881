pub mod Answering
pub mod SameShares
pub mod Promised
pub mod Controls
