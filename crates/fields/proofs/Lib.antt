pub mod FieldLaws
pub mod CallLaws
pub mod WordLaws
pub mod RefusalLaws
pub mod EveryCutting
pub mod BoundLaws
pub mod Beginnings
pub mod Witnesses
