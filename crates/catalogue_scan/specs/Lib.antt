pub mod Places
pub mod PlacesLaws
pub mod ScanLaws
pub mod BufferLaws
