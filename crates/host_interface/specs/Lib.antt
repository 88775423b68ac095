pub mod Files
pub mod Folders
pub mod Sources
pub mod Steps
pub mod Streams
