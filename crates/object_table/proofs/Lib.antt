pub mod Takes
pub mod News
pub mod Writes
pub mod Indexed
pub mod Unchanged
pub mod Mailboxes
