pub mod Samples
pub mod Step
pub mod Frame
pub mod private
