pub mod Leaves
pub mod Calls
pub mod Laws
pub mod Cells
pub mod Lists
pub mod Inner
