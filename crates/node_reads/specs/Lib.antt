pub mod Named
pub mod LoginStages
pub mod FetchStages
pub mod Seen
pub mod Readings
pub mod Tickets
pub mod Asking
pub mod Tables
