-- Definitions that serve private functions.
pub mod Build
pub mod Held
