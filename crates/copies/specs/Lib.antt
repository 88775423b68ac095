pub mod Calls
pub mod Causes
pub mod Copied
pub mod Found
pub mod Moved
pub mod Pairs
pub mod Shapes
pub mod Added
