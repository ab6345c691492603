pub mod Names
pub mod Catalogue
pub mod Changes
pub mod Buffers
pub mod NamesLaws
pub mod LineLaws
pub mod CatalogueLaws
pub mod BuffersLaws
