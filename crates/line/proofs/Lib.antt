pub mod Closed
pub mod Faces
pub mod Constants
