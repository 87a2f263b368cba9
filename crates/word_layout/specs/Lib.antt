pub mod Limits
pub mod Size
pub mod Name
pub mod First
