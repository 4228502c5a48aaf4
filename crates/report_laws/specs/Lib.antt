pub mod OneReport
pub mod PartsReport
pub mod PartsOfTexts
