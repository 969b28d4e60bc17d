mod Calling
pub mod FilesLaws
mod Folding
pub mod Fronts
pub mod Growing
pub mod Packets
pub mod Sharing
mod Standing
