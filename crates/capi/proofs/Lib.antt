pub mod InterfaceLaws
pub mod EveryList
pub mod CuttingLaws
