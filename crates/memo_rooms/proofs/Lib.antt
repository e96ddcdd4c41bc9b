mod KeptRooms
pub mod WholeKept
