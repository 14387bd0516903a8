pub mod TextLaws
pub mod TextNumbers
pub mod TextTheorems
