pub mod Ending
pub mod Mirroring
pub mod Shown
