pub mod Nested
pub mod OneTrack
pub mod SeatWork
pub mod Sees
