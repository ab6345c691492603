pub mod Mends
pub mod MendsLaws
pub mod Numbers
