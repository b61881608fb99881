pub mod Cases
pub mod Coded
