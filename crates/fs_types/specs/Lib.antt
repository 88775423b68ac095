pub mod Faults
pub mod Flags
pub mod NamedFiles
pub mod Names
pub mod Requests
