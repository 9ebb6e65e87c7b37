pub mod Nodes
pub mod Hearing
pub mod Rounds
pub mod Entering
pub mod Laws
pub mod Naming
