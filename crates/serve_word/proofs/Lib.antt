pub mod Fitting
pub mod Ported
pub mod Storing
pub mod Ended
pub mod Served
