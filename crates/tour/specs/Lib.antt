pub mod Requests
pub mod Toured
