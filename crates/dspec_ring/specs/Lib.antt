pub mod Known
pub mod EndFields
pub mod Words
