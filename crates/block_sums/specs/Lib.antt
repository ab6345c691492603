pub mod Sums
pub mod StripLaws
pub mod WriteLaws
