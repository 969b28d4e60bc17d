pub mod Remaining
pub mod Listed
pub mod Emptiness
