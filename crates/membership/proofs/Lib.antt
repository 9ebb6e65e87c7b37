pub mod Adding
pub mod Ruled
pub mod Heard
