-- Definitions that serve private functions.
pub mod Literals
pub mod Search
pub mod Written
