pub mod Samples
pub mod Left
