pub mod Seen
pub mod Laws
pub mod Replies
pub mod Readers
pub mod ReplyLaws
