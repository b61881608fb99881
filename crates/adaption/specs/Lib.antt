pub mod Adaption
pub mod Calls
pub mod Laws
pub mod Inner
