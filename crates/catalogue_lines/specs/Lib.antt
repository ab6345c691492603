pub mod Reading
pub mod ReadingLaws
pub mod Splice
pub mod SpliceLaws
