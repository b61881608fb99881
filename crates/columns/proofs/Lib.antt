pub mod Stretches
pub mod Filling
pub mod Starting
