pub mod TurnedLaws
pub mod CountLaws
pub mod WayLaws
