pub mod FindingLaws
pub mod CountLaws
pub mod CallLaws
pub mod FillLaws
pub mod AnswerLaws
pub mod Theorems
pub mod Rows
pub mod Witnesses
