pub mod Fits
pub mod Front
pub mod TrackTree
pub mod Reach
