-- Definitions that serve private functions.
pub mod Answers
pub mod Readers
pub mod Resettled
pub mod Settled
