pub mod Incoming
pub mod LineReading
pub mod Reading
pub mod Requests
pub mod Skipping
pub mod TextReading
