pub mod Runs
pub mod Calls
pub mod RoundTrips
pub mod Steps
pub mod Sample
