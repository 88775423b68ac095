pub mod Turning
pub mod Tried
