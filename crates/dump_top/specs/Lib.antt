pub mod Words
pub mod Rows
pub mod Texts
pub mod Parts
pub mod Endings
