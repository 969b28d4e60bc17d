pub mod Examined
pub mod Merged
pub mod Words
