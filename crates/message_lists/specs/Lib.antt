pub mod Arrivals
pub mod Started
