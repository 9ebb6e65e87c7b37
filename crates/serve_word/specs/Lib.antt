pub mod Causes
pub mod Endings
pub mod Plans
pub mod Serving
pub mod Stores
