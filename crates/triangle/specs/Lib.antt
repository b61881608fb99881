pub mod Elements
pub mod Columns
pub mod Points
pub mod Lawful
