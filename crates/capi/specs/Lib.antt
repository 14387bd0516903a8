pub mod Interface
pub mod Lists
pub mod Cutting
