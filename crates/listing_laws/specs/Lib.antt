pub mod Cut
pub mod Round
pub mod Run
pub mod Edge
pub mod Claims
