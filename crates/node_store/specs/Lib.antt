pub mod Answering
pub mod Changes
pub mod Examples
pub mod Given
pub mod Kept
pub mod TreeUnder
