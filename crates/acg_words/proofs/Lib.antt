pub mod WordsLemmas
pub mod SettingsLemmas
pub mod RangesLemmas
pub mod Tables
pub mod PrintsLemmas
pub mod Flat
