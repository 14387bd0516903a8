pub mod Profile
pub mod Words
pub mod Tables
