pub mod RebuildLaws
pub mod EngineLaws
pub mod CasesLaws
pub mod MeaningLaws
pub mod OneWordLaws
pub mod BatchLaws
