pub mod Utf16
