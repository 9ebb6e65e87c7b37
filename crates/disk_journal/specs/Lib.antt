pub mod Images
pub mod Journal
pub mod Reading
