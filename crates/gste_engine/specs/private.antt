-- Definitions that serve private functions.
pub mod EdgeFinds
pub mod Due
pub mod Given
pub mod Judged
pub mod Links
pub mod Rounds
pub mod Seen
pub mod Sums
pub mod Taken
pub mod Waiting
