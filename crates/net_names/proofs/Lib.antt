pub mod Numbers
pub mod Links
pub mod Named
pub mod Parts
