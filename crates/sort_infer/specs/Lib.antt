pub mod Raised
pub mod ClearRows
pub mod Tours
