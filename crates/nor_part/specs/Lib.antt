pub mod Part
pub mod Layout
pub mod Cleaned
pub mod States
pub mod Flashes
pub mod WholePages
pub mod Memory
pub mod MemoryParts
