pub mod Groups
pub mod Rounds
pub mod Checks
pub mod Laws
