pub mod EveryImport
