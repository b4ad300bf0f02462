pub mod Rows
pub mod Table
pub mod Growths
pub mod Places
pub mod Charts
