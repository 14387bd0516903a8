pub mod ChunkLaws
pub mod CallLaws
pub mod Theorems
pub mod AnswerLaws
pub mod Rows
pub mod Witnesses
