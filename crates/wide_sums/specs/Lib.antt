pub mod PowerSums
pub mod PowerSumsLaws
