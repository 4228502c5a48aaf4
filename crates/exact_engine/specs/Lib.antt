pub mod Results
pub mod Check
pub mod private
