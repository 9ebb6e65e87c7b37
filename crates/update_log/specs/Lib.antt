pub mod Codes
pub mod Entries
pub mod Answers
pub mod Dues
