pub mod Kept
pub mod Narrow
