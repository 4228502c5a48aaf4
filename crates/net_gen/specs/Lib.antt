pub mod Pipeline
