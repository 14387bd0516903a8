pub mod InPlace
pub mod Steps
pub mod Claims
pub mod Examples
