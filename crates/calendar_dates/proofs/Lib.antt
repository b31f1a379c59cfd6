pub mod YearLaws
pub mod MonthLaws
pub mod DateLaws
