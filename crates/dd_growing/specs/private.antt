-- Definitions that serve private functions.
pub mod Slots
