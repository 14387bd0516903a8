pub mod ShapeLaws
pub mod ReportLaws
pub mod MarkLaws
pub mod ReadingLaws
