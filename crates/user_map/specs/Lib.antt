pub mod Plain
pub mod Laws
pub mod Loads
pub mod Managers
