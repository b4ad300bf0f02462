pub mod ItemForms
pub mod Descriptions
pub mod Parsing
pub mod Steps
pub mod ReadErrors
