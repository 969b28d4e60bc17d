pub mod Lone
mod Pairs
