pub mod FirstTwo
pub mod FirstTwoLaws
