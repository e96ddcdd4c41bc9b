pub mod Calls
pub mod Crossing
pub mod FlatLaws
pub mod Laws
pub mod Lies
pub mod Summed
pub mod Tracks
pub mod Walks
