pub mod Plain
pub mod Grammars
pub mod GrammarErrors
pub mod Trees
