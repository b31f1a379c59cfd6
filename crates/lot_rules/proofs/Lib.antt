pub mod Ranges
pub mod Singles
pub mod Bases
pub mod Exact
pub mod Same
pub mod Cases
