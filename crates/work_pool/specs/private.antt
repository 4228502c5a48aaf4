-- Definitions that serve private functions.
pub mod Ready
pub mod Jobs
