pub mod Layout
pub mod Pages
pub mod Props
pub mod Flashes
pub mod Parts
pub mod Reading
