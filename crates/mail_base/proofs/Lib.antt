pub mod Maps
pub mod Lower
pub mod Sets
pub mod KeyMaps
pub mod KeyWrites
