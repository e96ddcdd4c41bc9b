pub mod Cached
pub mod Examples
pub mod Laws
pub mod Memo
pub mod Runs
pub mod Using
