pub mod Findings
pub mod Engine
pub mod private
