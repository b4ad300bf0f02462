pub mod SegmentLaws
pub mod FieldLaws
pub mod FileLaws
pub mod WrittenLaws
