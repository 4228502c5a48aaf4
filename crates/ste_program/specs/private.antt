-- Definitions that serve private functions.
pub mod Texts
pub mod Made
pub mod Tries
pub mod Prepared
pub mod Simulated
pub mod Endings
