pub mod EntryLaws
pub mod FindLaws
pub mod WriteLaws
pub mod CallLaws
pub mod Theorems
pub mod AnswerLaws
pub mod Rows
pub mod Witnesses
