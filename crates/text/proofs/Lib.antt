pub mod FieldSteps
pub mod CellSteps
