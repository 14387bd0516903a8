pub mod Line
pub mod Sample
pub mod Places
pub mod Base
