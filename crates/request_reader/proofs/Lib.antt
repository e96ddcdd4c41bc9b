pub mod Coming
pub mod Cutting
pub mod Lines
pub mod LongLines
pub mod Spelling
pub mod Taking
pub mod Unasked
pub mod Waiting
