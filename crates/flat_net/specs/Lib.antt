pub mod Flat
pub mod Corresponds
pub mod private
