pub mod Mirrors
pub mod Shown
