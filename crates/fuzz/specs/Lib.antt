pub mod Comparing
pub mod Lent
pub mod Words
