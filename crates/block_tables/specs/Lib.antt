pub mod Table
pub mod StoreLaws
pub mod SelectorLaws
pub mod ChosenLaws
pub mod TableLaws
pub mod TurnsLaws
