pub mod Beside
pub mod Built
pub mod Builds
pub mod Calls
pub mod Reads
pub mod Spending
pub mod View
