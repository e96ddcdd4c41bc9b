pub mod Answers
pub mod Memo
pub mod Nodes
pub mod Pass
pub mod Pin
pub mod Reach
pub mod View
