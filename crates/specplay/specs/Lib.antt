pub mod Runs
pub mod Schedules
pub mod Written
pub mod Threads
pub mod Lines
pub mod Words
