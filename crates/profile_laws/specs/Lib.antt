pub mod Laws
pub mod Parts
pub mod Sizes
pub mod Streams
