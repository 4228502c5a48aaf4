pub mod Routes
pub mod private
