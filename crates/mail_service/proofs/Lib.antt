pub mod Pairs
pub mod Shutting
pub mod Running
pub mod Listening
