-- Definitions that serve private functions.
pub mod Recursion
pub mod Tables
pub mod Met
pub mod Expands
