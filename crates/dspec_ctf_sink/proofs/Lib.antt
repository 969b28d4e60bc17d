mod Accounting
mod Batching
mod Counting
mod Cutting
mod OneMore
mod Following
mod Handing
pub mod Silent
mod Timely
mod Tying
mod Walks
pub mod Written
