pub mod Rows
pub mod Lists
pub mod NetSets
pub mod Fillings
pub mod Constants
pub mod private
