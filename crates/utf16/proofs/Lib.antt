pub mod Utf16Laws
