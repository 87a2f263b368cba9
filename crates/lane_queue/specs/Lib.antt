pub mod View
pub mod Subsequences
pub mod Rule
pub mod Passes
pub mod Gathering
