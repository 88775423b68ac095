pub mod EntryLists
pub mod NextFiles
pub mod Restored
pub mod Sums
