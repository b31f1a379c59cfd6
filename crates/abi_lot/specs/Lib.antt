pub mod LotAnswers
