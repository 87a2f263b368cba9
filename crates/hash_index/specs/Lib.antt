pub mod Node
pub mod Chain
pub mod Changes
pub mod Answers
pub mod Search
pub mod Held
pub mod Looking
