pub mod Homes
pub mod NoRepeats
pub mod Tabled
pub mod Counted
pub mod Bound
pub mod Rows
pub mod OwnNames
pub mod Bridge
