pub mod Pairs
pub mod Openers
pub mod Turns
