-- Definitions that serve private functions.
pub mod Held
pub mod Turns
