pub mod Change
pub mod CountsLaws
