pub mod View
pub mod Passes
