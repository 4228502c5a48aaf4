-- Definitions that serve private functions.
pub mod Drafts
pub mod Placed
pub mod Labelled
pub mod Taken
