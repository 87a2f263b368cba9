pub mod Lists
pub mod States
pub mod Lawful
mod Growing
mod Examples
