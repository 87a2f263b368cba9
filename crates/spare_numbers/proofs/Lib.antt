pub mod Marked
pub mod NumberLists
pub mod Shares
pub mod Written
pub mod Struck
