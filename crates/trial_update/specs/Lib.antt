pub mod Turns
pub mod Trials
