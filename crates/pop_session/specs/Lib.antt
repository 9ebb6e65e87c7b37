pub mod Slots
pub mod Banners
pub mod Shown
pub mod Laws
pub mod Messages
pub mod Dues
pub mod Follows
