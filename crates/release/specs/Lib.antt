pub mod Version
pub mod Texts
pub mod Joined
pub mod JoinedLaws
