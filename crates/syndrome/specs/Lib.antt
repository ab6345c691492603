pub mod Across
pub mod PartsLaws
