pub mod RebuildAnswer
pub mod RebuildAnswerLaws
