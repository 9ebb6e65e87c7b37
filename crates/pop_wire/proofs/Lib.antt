pub mod Meanings
pub mod Shorts
pub mod Hearing
pub mod ReadBack
pub mod OneReply
pub mod Taking
