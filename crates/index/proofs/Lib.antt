pub mod Count
pub mod Rise
pub mod Overlay
pub mod Rank
pub mod Controls
pub mod Bey
pub mod InRoot
pub mod Pencil
