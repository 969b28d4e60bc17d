pub mod Balanced
pub mod Words
