pub mod Converter
pub mod Calls
pub mod Inner
pub mod Laws
