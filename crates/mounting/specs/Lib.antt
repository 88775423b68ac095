pub mod Contents
pub mod Costs
pub mod Formats
pub mod Records
pub mod Saved
