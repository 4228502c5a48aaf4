-- Definitions that serve private functions.
pub mod Known
pub mod Leading
