pub mod FirstLine
pub mod InTime
pub mod LegalText
pub mod LinesRead
pub mod TextRead
