pub mod CalendarAnswers
