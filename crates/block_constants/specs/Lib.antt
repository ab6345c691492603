pub mod Reduced
pub mod ReducedLaws
pub mod Equations
pub mod EquationsLaws
pub mod FreeRows
pub mod FreeRowsLaws
