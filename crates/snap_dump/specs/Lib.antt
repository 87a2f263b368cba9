pub mod Tagged
pub mod Dumps
pub mod Beside
