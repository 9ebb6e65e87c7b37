pub mod Shows
pub mod Logins
pub mod Messages
pub mod Marks
mod Tables
mod Units
mod Replying
mod Moving
pub mod Tops
