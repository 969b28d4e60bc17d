pub mod Calls
pub mod Printed
pub mod Reading
pub mod Schedules
pub mod SetUp
pub mod Steps
pub mod LineWords
pub mod Words
