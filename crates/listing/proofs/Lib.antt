pub mod SetLaws
pub mod FormLaws
pub mod TableLaws
pub mod ChangeLaws
pub mod ExampleRow
