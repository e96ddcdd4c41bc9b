pub mod Digest
pub mod Examples
pub mod FindingOrAdding
pub mod Interning
pub mod Laws
pub mod Listed
pub mod Room
pub mod SameKey
