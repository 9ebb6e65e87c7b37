pub mod Whole
pub mod Moves
pub mod Rules
pub mod Laws
