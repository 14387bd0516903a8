pub mod Buffer
pub mod Index
pub mod Lines
pub mod Spelling
