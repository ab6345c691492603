pub mod Demand
pub mod History
pub mod Lines
pub mod DemandLaws
pub mod HistoryLaws
pub mod LinesLaws
