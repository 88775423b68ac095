pub mod Tars
pub mod Untars
pub mod Entries
pub mod Interruptions
pub mod Archiving
