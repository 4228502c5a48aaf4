pub mod Rail
pub mod Calls
pub mod private
