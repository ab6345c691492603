pub mod ContradictionLaws
pub mod RepairOrderLaws
