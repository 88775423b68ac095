pub mod Joins
pub mod Filling
