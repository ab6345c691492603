pub mod Answers
pub mod AnswersLaws
pub mod Figures
pub mod PlainLaws
