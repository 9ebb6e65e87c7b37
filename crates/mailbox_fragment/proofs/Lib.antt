pub mod OneUser
pub mod Full
