pub mod CellsLaws
pub mod Holds
pub mod WordLine
pub mod Kinds
pub mod KindsLaws
pub mod Held
pub mod Numbers
pub mod HeldLaws
