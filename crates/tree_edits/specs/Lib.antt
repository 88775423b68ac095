pub mod Edits
pub mod Roots
pub mod Reading
pub mod Writing
pub mod Calls
