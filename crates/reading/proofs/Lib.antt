pub mod Units
pub mod Laws
pub mod Cases
pub mod Shift
pub mod Pattern
