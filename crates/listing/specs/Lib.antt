pub mod Sets
pub mod Form
pub mod Order
pub mod Tables
pub mod Steps
pub mod Whole
pub mod Example
