pub mod Known
pub mod NamedFiles
pub mod Passing
pub mod Torn
