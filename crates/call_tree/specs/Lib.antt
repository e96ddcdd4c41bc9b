pub mod Bounds
pub mod Examples
pub mod Laws
pub mod Passing
