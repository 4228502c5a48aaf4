-- Definitions that serve private functions.
pub mod Sums
pub mod Refused
pub mod Pieces
pub mod Ordered
pub mod Numbers
pub mod Choices
pub mod TruthTables
pub mod Words
