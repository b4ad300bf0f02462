-- The definitions of the commands.
pub mod Act
pub mod Run
pub mod Perform
