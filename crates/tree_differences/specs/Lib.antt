pub mod Differing
pub mod UpdateLaws
pub mod Updates
