pub mod Talks
pub mod Same
pub mod Plain
pub mod Handled
pub mod Readers
pub mod Kept
