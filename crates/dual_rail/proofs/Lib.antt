pub mod Works
pub mod Chains
pub mod Turns
pub mod Firsts
