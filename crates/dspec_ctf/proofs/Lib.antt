mod Lines
mod Ranges
mod Sizes
mod Collecting
mod OneList
pub mod OneStream
mod Spreading
mod Rising
mod Texts
pub mod Filling
mod FillingRoom
mod Sample
mod InMemory
