pub mod Undriven
pub mod Runs
pub mod Along
pub mod Starts
pub mod private
