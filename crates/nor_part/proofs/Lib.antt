pub mod Cleaning
pub mod Pages
pub mod Ending
pub mod Sectors
