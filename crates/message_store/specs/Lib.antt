pub mod Places
pub mod Files
pub mod Fetches
pub mod Faults
