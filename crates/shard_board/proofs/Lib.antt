pub mod Keeping
pub mod Spread
pub mod Weighing
pub mod Paged
pub mod Showing
pub mod Turning
pub mod Known
