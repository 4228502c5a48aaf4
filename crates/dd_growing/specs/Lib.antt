pub mod Growing
pub mod GrowingLaws
pub mod private
