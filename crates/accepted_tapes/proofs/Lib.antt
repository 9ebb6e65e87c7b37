pub mod OneSession
mod Flown
mod Posted
pub mod AcceptedLines
pub mod Told
mod Letters
mod Delivered
pub mod Accepts
