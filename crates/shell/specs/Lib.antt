pub mod Explained
pub mod Tools
