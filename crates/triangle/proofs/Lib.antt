pub mod Units
pub mod Across
pub mod Loops
pub mod FacePoints
pub mod SamePoints
pub mod Faces
pub mod Constants
pub mod Inside
