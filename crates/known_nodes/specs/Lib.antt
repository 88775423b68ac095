pub mod FileBytes
pub mod Known
pub mod Rests
pub mod Tables
pub mod WholeFiles
