pub mod Holding
pub mod Stepping
pub mod Whole
pub mod Both
