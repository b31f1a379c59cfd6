pub mod WeekLaws
pub mod PassLaws
