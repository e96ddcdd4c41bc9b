pub mod Asks
pub mod Examples
pub mod History
pub mod Left
pub mod Listing
pub mod Passes
pub mod Seat
