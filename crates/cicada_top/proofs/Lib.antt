pub mod DueLaws
pub mod RunLaws
pub mod Together
