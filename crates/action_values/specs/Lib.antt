pub mod Values
pub mod Ascending
pub mod TokenOrder
pub mod Puts
pub mod Evaluation
