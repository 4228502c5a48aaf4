pub mod Text
pub mod private
