pub mod Tickets
pub mod Begun
pub mod Answered
pub mod Knowing
pub mod Growing
