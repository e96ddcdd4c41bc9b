pub mod Decimal
pub mod Held
