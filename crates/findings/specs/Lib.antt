pub mod Findings
pub mod Calls
pub mod Steps
pub mod Claims
pub mod Examples
