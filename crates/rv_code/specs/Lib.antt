pub mod Bytes
pub mod Arithmetic
pub mod Table
pub mod Encode
pub mod Search
pub mod Machine
pub mod Images
