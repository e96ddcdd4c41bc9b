pub mod Starts
pub mod TableOrder
pub mod Tables
