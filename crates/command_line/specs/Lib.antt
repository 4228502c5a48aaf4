pub mod App
pub mod Command
pub mod View
pub mod Bounds
