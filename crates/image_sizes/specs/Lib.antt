pub mod FolderSizes
pub mod FirstPages
