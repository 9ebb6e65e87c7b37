pub mod Stepping
pub mod Passing
pub mod Found
pub mod Striking
pub mod Answering
pub mod Posting
pub mod Saying
