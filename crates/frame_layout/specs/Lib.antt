pub mod Places
pub mod Layouts
pub mod Placing
pub mod Roots
