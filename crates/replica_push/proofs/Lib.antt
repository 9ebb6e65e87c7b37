pub mod Logs
pub mod News
pub mod Follows
