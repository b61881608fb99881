pub mod Forms
pub mod Inner
