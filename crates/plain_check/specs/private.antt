-- Definitions that serve private functions.
pub mod Choices
pub mod Sets
pub mod Outcome
pub mod Hops
pub mod Shown
