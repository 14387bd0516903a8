pub mod Lent
pub mod CodePage
pub mod Reading
pub mod Marks
