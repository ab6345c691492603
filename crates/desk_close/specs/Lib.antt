pub mod Read
pub mod Close
pub mod ReadLaws
