pub mod Shares
pub mod Calls
pub mod Laws
pub mod Inner
