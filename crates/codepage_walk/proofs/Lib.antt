pub mod WalkLaws
pub mod CheckLaws
