pub mod OneUser
pub mod Retained
pub mod Greatest
pub mod Latest
pub mod Keeping
