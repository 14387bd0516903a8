pub mod Walk
pub mod Checks
