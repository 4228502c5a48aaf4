pub mod Told
pub mod Pool
pub mod private
