pub mod Scanned
pub mod Headers
pub mod Reading
pub mod Placing
pub mod Labels
pub mod Rising
pub mod ModelParts
pub mod ReadFew
