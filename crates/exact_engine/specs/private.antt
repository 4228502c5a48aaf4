-- Definitions that serve private functions.
pub mod Counts
pub mod Joined
pub mod Bits
pub mod Sources
pub mod TimedCuts
pub mod Asking
pub mod Times
pub mod Choosing
pub mod Finishing
pub mod Breaching
pub mod Running
pub mod Reporting
pub mod Copying
pub mod BySets
