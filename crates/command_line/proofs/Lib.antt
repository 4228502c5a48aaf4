pub mod Numerals
pub mod Refusals
pub mod Ranges
