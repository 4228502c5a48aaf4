pub mod Mentions
pub mod Sizes
pub mod Bound
pub mod Answer
pub mod private
