pub mod Figures
pub mod FiguresLaws
pub mod Jobs
pub mod JobLaws
