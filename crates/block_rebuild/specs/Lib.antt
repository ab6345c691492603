pub mod Columns
pub mod ColumnsLaws
pub mod Rebuild
pub mod Steps
pub mod Meaning
