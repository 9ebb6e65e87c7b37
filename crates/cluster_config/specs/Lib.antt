pub mod Answers
pub mod Faults
pub mod Keys
pub mod Owners
pub mod People
pub mod Rules
pub mod Values
