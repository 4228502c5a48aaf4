-- Definitions that serve private functions.
pub mod Passes
pub mod Drivers
pub mod Parts
