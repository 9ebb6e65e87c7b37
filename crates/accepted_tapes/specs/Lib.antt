pub mod Orders
pub mod Follows
pub mod Accepted
