pub mod KeyTexts
pub mod OrderedTexts
pub mod SameNames
mod Noted
pub mod Searching
pub mod Copies
pub mod Built
