pub mod Seen
pub mod Following
pub mod Leading
pub mod Kept
pub mod Appends
pub mod Membership
