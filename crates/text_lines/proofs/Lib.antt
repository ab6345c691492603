pub mod Steps
pub mod ReadSteps
pub mod LineKinds
