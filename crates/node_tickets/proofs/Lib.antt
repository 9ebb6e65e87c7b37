pub mod Writes
pub mod Asks
pub mod Maps
pub mod Stands
