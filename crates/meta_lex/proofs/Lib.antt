pub mod Prefixes
pub mod FirstBytes
pub mod Longest
pub mod Symbols
pub mod QuotedTexts
pub mod Steps
pub mod OneReading
pub mod Counting
