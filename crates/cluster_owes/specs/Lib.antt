pub mod Seen
pub mod Outcomes
pub mod Held
pub mod Laws
