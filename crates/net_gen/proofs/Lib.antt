pub mod Below
pub mod Short
