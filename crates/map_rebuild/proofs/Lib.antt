pub mod Sets
pub mod AsMachine
pub mod Listed
