mod Examples
mod Results
pub mod Bools
pub mod Integers
pub mod Fields
pub mod Rows
pub mod EachRow
pub mod Codes
pub mod Words
pub mod Decoded
pub mod Search
pub mod Found
pub mod ByteLaws
pub mod Bounds
