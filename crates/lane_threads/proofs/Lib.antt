mod Paired
pub mod Merging
pub mod LaneLists
pub mod Readings
mod Gathered
mod Together
mod ReadBeside
mod Shared
mod WholeRun
mod Remaining
mod BecomingLists
mod BecomingLanes
pub mod BecomingRan
mod BecomingLog
mod BecomingOrder
mod Becoming
pub mod Counting
pub mod Beside
pub mod Owned
