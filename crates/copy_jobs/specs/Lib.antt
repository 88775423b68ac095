pub mod Adding
pub mod Copied
pub mod Copying
pub mod Failures
pub mod Lefts
pub mod Sources
