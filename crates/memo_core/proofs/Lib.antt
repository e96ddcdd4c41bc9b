mod Answering
pub mod CachedItems
mod CachedPut
mod FullRooms
mod Lists
pub mod MemoLaws
mod MemoSteps
pub mod RunLaws
