pub mod Checked
pub mod Halting
pub mod Installing
pub mod Noted
pub mod OneByOne
pub mod Sets
pub mod Validating
pub mod Named
