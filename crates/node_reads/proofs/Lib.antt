pub mod Receivers
pub mod Stages
pub mod Changes
pub mod Lifts
pub mod Asked
pub mod Spares
