pub mod Cases
pub mod Phases
