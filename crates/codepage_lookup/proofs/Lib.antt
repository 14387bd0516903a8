pub mod WordLaws
pub mod ProfileLaws
pub mod LeadLaws
pub mod LeadRows
pub mod TableLaws
