pub mod SeparatedLaws
pub mod ReportLaws
