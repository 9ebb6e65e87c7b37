pub mod Tellers
pub mod Rows
pub mod Installs
pub mod Profiles
pub mod Laws
