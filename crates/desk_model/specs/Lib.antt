pub mod Tickets
pub mod Added
pub mod Entries
pub mod Growing
pub mod Tallies
pub mod Laws
