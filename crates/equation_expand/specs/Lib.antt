pub mod Meaning
pub mod Expanded
pub mod Kept
pub mod Sources
pub mod Seen
pub mod Frames
pub mod PlainSources
pub mod SourceMeanings
