pub mod Bytes
pub mod BytesLaws
pub mod Locators
pub mod LocatorsLaws
pub mod Rows
pub mod RowsLaws
