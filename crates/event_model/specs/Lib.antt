pub mod Part
pub mod PathRows
