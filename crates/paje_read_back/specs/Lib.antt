pub mod ToldLines
pub mod Examples
