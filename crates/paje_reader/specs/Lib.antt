pub mod Why
pub mod TextLines
pub mod LineReasons
pub mod TextSaid
pub mod LineFaults
pub mod Reader
pub mod Examples
