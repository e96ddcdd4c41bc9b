pub mod Entry
pub mod Examples
pub mod Whole
