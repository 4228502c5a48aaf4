-- Definitions that serve private functions.
pub mod Drafts
pub mod Steps
