pub mod Routes
pub mod Meanings
pub mod Words
pub mod Hearing
pub mod ReadBack
pub mod OneReply
