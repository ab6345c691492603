pub mod Turn
pub mod Replies
pub mod RepliesLaws
pub mod Laws
pub mod LinesLaws
pub mod ContradictionLaws
