pub mod Index
pub mod Rank
pub mod Bey
pub mod Pencil
