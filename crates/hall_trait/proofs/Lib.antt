pub mod HistoryProps
pub mod PublishedStreams
pub mod Views
