pub mod Lent
pub mod Laying
pub mod Inner
