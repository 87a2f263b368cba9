pub mod Begun
pub mod Committed
pub mod Fresh
