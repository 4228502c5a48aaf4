pub mod Counts
pub mod Digits
pub mod Exprs
pub mod Lines
pub mod Times
pub mod Told
pub mod Vars
