pub mod Report
pub mod Separated
