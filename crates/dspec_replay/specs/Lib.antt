pub mod Buffers
pub mod Called
pub mod Replayed
pub mod PlayedTexts
pub mod Words
