pub mod ViewSums
pub mod Gathered
pub mod Contents
pub mod Subsequences
pub mod EachOnceKept
pub mod PassLists
