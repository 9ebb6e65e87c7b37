pub mod Filled
pub mod Frames
pub mod Gates
pub mod Images
