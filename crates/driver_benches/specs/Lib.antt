pub mod Flaws
pub mod Moments
