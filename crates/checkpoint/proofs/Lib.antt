pub mod Computing
pub mod DecimalLaws
pub mod ParserLaws
pub mod LineLaws
pub mod PlaceLaws
pub mod ReadLaws
pub mod WriteLaws
pub mod OlderLines
