pub mod Pushes
pub mod Acks
pub mod Rules
