pub mod WrittenWords
pub mod WrittenNumbers
pub mod WrittenEvents
pub mod CanonicalText
pub mod Canonical
pub mod Generated
pub mod Bundles
pub mod Examples
