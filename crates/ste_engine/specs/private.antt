-- Definitions that serve private functions.
pub mod TimedCuts
pub mod Finds
pub mod Firsts
pub mod Places
pub mod Reports
pub mod Times
pub mod Turns
pub mod Weakened
