pub mod Onward
pub mod Shows
pub mod Regrouped
pub mod Numbering
