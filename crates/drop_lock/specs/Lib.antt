pub mod Held
pub mod Locks
