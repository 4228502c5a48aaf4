-- Definitions that serve private functions.
pub mod Checks
pub mod Search
pub mod Depth
pub mod Kinds
pub mod Counts
pub mod Ranks
