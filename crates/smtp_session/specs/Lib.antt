pub mod Replies
pub mod Texts
pub mod Talks
pub mod Hears
pub mod Follows
