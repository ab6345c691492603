pub mod ShapesLaws
