pub mod Profile
pub mod ProfileLaws
pub mod Profiled
pub mod Search
pub mod SearchLaws
pub mod Laws
