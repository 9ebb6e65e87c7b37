pub mod Codes
pub mod Tables
pub mod Outcomes
pub mod Users
pub mod Laws
pub mod Mailboxes
