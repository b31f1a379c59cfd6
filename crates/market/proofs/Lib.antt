pub mod AnswerLaws
pub mod JudgeLaws
