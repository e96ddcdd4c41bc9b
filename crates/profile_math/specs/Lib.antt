pub mod Closing
pub mod Examples
pub mod InOrder
pub mod Laws
pub mod Merging
pub mod PathClosing
pub mod PathSum
pub mod Sum
