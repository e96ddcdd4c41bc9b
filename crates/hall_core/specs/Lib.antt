pub mod Allowed
pub mod Answering
pub mod Examples
pub mod OneTree
pub mod Runs
pub mod Steps
pub mod World
