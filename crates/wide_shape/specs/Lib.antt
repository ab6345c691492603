pub mod Edition
pub mod Shapes
pub mod ShapesLaws
pub mod EditionLaws
