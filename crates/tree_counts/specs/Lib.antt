pub mod Sizes
pub mod Counted
pub mod FirstRoots
pub mod RootWalks
pub mod Counts
