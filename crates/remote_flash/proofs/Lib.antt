pub mod Parts
pub mod Longest
pub mod Starting
pub mod AttemptLemmas
pub mod Ordering
