pub mod Causes
pub mod Outside
pub mod InMemory
pub mod Steps
