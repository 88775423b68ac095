pub mod Codes
pub mod Plain
pub mod Restoring
pub mod Spaces
