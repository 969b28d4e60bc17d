pub mod Tellable
pub mod Words
