pub mod Sound
pub mod Turned
pub mod Posted
pub mod Patterns
