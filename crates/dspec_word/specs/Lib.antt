pub mod Code
pub mod Word
pub mod WordFields
pub mod Laws
pub mod SpecId
pub mod Tables
pub mod Words
