pub mod Lines
pub mod Prints
pub mod Settings
pub mod Commands
pub mod Usage
