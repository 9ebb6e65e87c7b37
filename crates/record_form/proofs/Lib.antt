pub mod Pieces
pub mod Parts
pub mod Objects
pub mod Records
