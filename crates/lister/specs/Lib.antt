pub mod Lines
pub mod Lister
