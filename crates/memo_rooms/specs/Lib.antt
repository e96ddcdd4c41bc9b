pub mod Examples
pub mod Laws
pub mod Rooms
pub mod Whole
