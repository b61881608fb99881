pub mod File
pub mod Reading
pub mod Laws
