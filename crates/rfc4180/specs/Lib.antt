pub mod Csv
pub mod Reading
pub mod Records
pub mod Steps
