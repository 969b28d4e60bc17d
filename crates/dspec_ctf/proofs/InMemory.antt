pub mod Events
pub mod Whole
pub mod Rooms
