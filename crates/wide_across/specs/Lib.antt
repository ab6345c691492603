pub mod Across
pub mod Fold
pub mod Pairs
pub mod PairsLaws
