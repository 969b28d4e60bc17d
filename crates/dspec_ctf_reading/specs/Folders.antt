-- Cited by calls. What trace folders hold.
pub mod Checks
pub mod Clocks
pub mod Counts
pub mod Marks
pub mod Values
pub mod Whole
