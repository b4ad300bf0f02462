pub mod Forms
pub mod Lexemes
pub mod Literals
pub mod ScanErrors
pub mod Numbered
pub mod Trees
pub mod Numbers
pub mod Uniform
