pub mod Calls
pub mod Good
pub mod OneTree
pub mod Passes
pub mod Past
pub mod Seats
pub mod Steps
pub mod World
