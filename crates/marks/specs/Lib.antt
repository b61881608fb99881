pub mod Marks
pub mod Inner
