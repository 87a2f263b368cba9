pub mod Answered
pub mod Elements
pub mod Entries
pub mod Adding
pub mod Begun
mod Counted
pub mod Seen
pub mod Promoted
pub mod Tried
pub mod Run
pub mod Results
mod Within
mod Held
mod Asked
mod Looked
pub mod Rests
mod Loaded
mod Settled
mod Clocks
mod Ran
mod AloneTxn
mod Again
pub mod Attempted
mod NextBlock
pub mod Weighing
pub mod Granted
mod Ended
