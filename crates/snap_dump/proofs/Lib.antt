pub mod Tagged
pub mod Dumped
pub mod Made
pub mod Placed
pub mod Worked
pub mod Beside
