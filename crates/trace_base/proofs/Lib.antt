pub mod CallPaths
pub mod InOrder
pub mod LegalExamples
pub mod LegalTest
pub mod Moments
pub mod Pairs
pub mod Telling
