pub mod Growing
pub mod Finding
pub mod Links
pub mod Loading
pub mod Looking
