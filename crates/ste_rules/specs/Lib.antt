pub mod Forms
pub mod Sizes
pub mod Covers
pub mod Steps
pub mod Answer
pub mod Text
pub mod private
