pub mod Model
pub mod Traces
pub mod Forms
pub mod Examples
