pub mod Tables
pub mod Siblings
