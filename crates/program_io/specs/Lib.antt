pub mod Words
pub mod Received
pub mod Parts
