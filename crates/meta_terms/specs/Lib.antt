pub mod Words
pub mod Names
pub mod Templates
pub mod Nodes
pub mod PlainItems
pub mod ItemKinds
