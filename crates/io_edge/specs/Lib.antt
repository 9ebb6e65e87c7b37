pub mod Causes
pub mod Doors
pub mod Faulty
pub mod Files
pub mod Moments
pub mod Octets
pub mod Plain
pub mod Yards
