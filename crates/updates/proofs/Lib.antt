pub mod ChangeLemmas
pub mod Meeting
pub mod PatchLemmas
pub mod PieceLemmas
