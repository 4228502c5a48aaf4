pub mod Failing
pub mod Latches
pub mod Refuting
pub mod Reporting
