-- Cited by calls. Traces by time whose packets and metadata are put into a caller's memory.
pub mod Batches
pub mod Calls
pub mod Filing
pub mod Naming
