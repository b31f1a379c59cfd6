pub mod Exact
pub mod Lengths
pub mod AtFault
pub mod Found
pub mod First
pub mod NamesLine
