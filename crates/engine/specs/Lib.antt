pub mod Policies
pub mod Engine
pub mod Steps
pub mod Converters
pub mod Pending
