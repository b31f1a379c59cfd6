pub mod Bounds
pub mod Places
pub mod Lists
pub mod Rounding
pub mod Says
