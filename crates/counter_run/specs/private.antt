-- Definitions that serve private functions.
pub mod Matrix
pub mod Block
pub mod Asking
