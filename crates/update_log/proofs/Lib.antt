pub mod Writes
pub mod Finds
