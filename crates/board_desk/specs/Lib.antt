pub mod Deeds
pub mod Desks
