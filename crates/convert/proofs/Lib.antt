pub mod CallLaws
pub mod RunLaws
pub mod RuleLaws
pub mod RefusalLaws
pub mod NumberLaws
pub mod Computing
pub mod SampleRows
pub mod RoundTripLaws
