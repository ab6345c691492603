pub mod Edition
pub mod EditionLaws
pub mod Rows
pub mod RowsLaws
pub mod PaddedLaws
