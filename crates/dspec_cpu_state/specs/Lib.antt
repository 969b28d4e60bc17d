pub mod Counting
pub mod CpuStates
pub mod Showing
mod MarkPlaces
pub mod Words
