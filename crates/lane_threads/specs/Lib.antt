pub mod Merges
pub mod Seen
pub mod Beside
pub mod All
pub mod Workers
pub mod Gathers
pub mod Shares
pub mod Whole
