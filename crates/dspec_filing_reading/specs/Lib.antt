pub mod Sessions
pub mod Reading
pub mod Laws
pub mod Words
