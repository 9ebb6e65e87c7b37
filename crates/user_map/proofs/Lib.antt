pub mod Best
pub mod Placing
pub mod Assigned
pub mod Turns
pub mod Managed
