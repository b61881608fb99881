pub mod CornerPoints
pub mod Section
pub mod Steps
pub mod Inner
pub mod SectionLaws
pub mod Laws
