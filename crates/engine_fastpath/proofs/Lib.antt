pub mod RunLaws
pub mod PlainLaws
pub mod MixedLaws
pub mod MetLaws
