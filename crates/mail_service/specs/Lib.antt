pub mod Consoles
pub mod Entrances
pub mod Services
