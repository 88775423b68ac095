pub mod Beneath
pub mod Entries
pub mod Ways
