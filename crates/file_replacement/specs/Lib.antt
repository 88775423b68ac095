pub mod Folder
pub mod Outcomes
