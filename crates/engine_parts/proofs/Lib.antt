pub mod Cofactors
pub mod Constants
pub mod Exprs
pub mod FirstFails
pub mod FirstSets
pub mod Nothing
pub mod Opposites
pub mod Verdicts
