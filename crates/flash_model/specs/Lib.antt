pub mod Geometry
pub mod Device
pub mod Blocks
pub mod Plan
pub mod Later
pub mod Reading
pub mod Contents
