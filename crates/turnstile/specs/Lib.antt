pub mod Lists
pub mod Shares
pub mod Rule
pub mod Passes
pub mod Worked
