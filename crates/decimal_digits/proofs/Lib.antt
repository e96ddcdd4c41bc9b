pub mod HeldDigits
pub mod WordsOfDigits
