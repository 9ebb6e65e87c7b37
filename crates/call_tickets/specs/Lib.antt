pub mod Seen
pub mod Moves
pub mod Tells
pub mod Passes
pub mod Begins
pub mod Asks
