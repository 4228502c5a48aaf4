pub mod Rest
pub mod Shown
pub mod TaskText
