pub mod HistoryFronts
pub mod HistoryMore
pub mod Legal
pub mod Samples
