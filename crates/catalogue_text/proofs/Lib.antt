pub mod ChangesLaws
