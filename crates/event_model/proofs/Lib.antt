pub mod PathRows
pub mod Times
