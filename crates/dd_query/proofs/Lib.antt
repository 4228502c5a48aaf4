pub mod Room
pub mod Walking
pub mod CubePaths
