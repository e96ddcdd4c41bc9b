pub mod Limits
pub mod WordsOf
