pub mod Deals
pub mod Turns
pub mod InTime
pub mod Late
pub mod Closes
pub mod Connections
pub mod Intents
