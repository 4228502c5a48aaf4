pub mod Tables
pub mod Engine
pub mod private
