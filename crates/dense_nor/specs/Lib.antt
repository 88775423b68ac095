pub mod Sums
pub mod Marks
pub mod Layout
pub mod Parts
pub mod Blocks
pub mod Cleaned
pub mod Flashes
pub mod WholePages
