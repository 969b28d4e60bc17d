pub mod KeptAll
mod LastPaths
mod LeftAfter
pub mod Passing
pub mod Returning
pub mod Serving
pub mod Standing
mod TakenUp
pub mod Tracing
mod Visiting
mod Working
