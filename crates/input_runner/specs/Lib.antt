pub mod Printing
pub mod Reading
pub mod Sizes
pub mod Ran
pub mod Running
