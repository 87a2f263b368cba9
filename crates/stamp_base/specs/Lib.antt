pub mod Limits
pub mod Stamp
