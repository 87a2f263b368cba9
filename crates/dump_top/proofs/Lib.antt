pub mod Numbers
pub mod Options
pub mod Refusals
pub mod RowTexts
pub mod Readings
pub mod Ends
