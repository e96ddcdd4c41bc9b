pub mod Store
pub mod Counted
pub mod Reached
pub mod StoreSteps
