pub mod Dates
pub mod Weekdays
pub mod Working
pub mod Calls
pub mod Counting
pub mod Laws
pub mod Cases
