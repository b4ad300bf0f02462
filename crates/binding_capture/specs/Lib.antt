pub mod Asked
pub mod Captures
pub mod Holders
pub mod Reading
