pub mod Sums
pub mod Weights
pub mod Trees
pub mod Gone
pub mod Walks
pub mod Counted
pub mod Numbers
