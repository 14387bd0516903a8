pub mod CsvLaws
pub mod ReadingLaws
pub mod RecordLaws
pub mod ImportLaws
