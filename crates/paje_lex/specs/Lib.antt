pub mod DateGrammar
pub mod DateReading
pub mod LineGrammar
pub mod LineKinds
pub mod LineReading
pub mod Unread
