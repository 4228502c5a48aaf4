pub mod Alike
pub mod Bound
pub mod Known
pub mod Large
pub mod Leading
