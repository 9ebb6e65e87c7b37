pub mod Crlf
pub mod Cutting
pub mod Undotting
pub mod Runs
pub mod Sending
pub mod Once
pub mod RoundTrip
pub mod Worked
mod Letting
