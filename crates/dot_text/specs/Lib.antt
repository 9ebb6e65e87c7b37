pub mod Cuts
pub mod Shown
pub mod Texts
pub mod Places
pub mod Dots
pub mod Laws
pub mod Worked
