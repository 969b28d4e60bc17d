pub mod Following
pub mod Pages
pub mod Paths
pub mod Words
