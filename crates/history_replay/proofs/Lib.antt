mod Mapped
mod Precedence
mod Replays
mod SortedResults
mod Examples
