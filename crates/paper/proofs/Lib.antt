pub mod Tests
pub mod Scan
pub mod First
pub mod Front
pub mod Memory
pub mod Exactly
pub mod Refusals
