pub mod StationAnswers
pub mod Laws
