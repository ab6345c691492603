pub mod Free
pub mod Asked
