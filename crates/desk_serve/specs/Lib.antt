pub mod Serve
pub mod ServeLaws
