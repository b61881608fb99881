pub mod Cursor
pub mod Numbers
pub mod Cutting
pub mod Coming
pub mod Onward
pub mod FirstBytes
pub mod Values
pub mod Judging
