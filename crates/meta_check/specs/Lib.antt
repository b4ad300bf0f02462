pub mod Views
pub mod Rules
pub mod Tables
pub mod Checked
pub mod MetaErrors
