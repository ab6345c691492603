pub mod History
pub mod StretchOrder
pub mod Closing
pub mod PutLaws
pub mod StretchOrderLaws
pub mod FinishLaws
pub mod ClosingLaws
