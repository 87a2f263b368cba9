pub mod Streams
pub mod PartLaws
pub mod WordLaws
pub mod PlainWords
pub mod GivenSettings
