pub mod Attempts
pub mod Padding
pub mod PartBytes
pub mod PartFaults
pub mod Examined
pub mod PlainCaches
