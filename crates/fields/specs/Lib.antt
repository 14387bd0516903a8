pub mod Fields
pub mod Steps
pub mod Cuttings
pub mod Examples
