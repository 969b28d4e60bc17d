pub mod Counting
pub mod Checking
pub mod Splitting
