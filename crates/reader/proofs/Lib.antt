pub mod Loans
pub mod Laying
pub mod Underway
pub mod Loading
