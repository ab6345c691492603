pub mod Open
pub mod SlotsLaws
pub mod OpenLaws
