pub mod LineLaws
pub mod PlaceLaws
