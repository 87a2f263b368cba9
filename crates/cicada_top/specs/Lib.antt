pub mod Status
pub mod Due
pub mod Delivery
pub mod Ending
pub mod Told
pub mod Reported
pub mod Runs
