pub mod Cutting
pub mod Parts
pub mod Files
pub mod AllFiles
pub mod Taking
pub mod SmallPlays
