pub mod Entries
pub mod ReadAgain
pub mod WholeArchives
pub mod StepParts
pub mod NamesTold
pub mod JoinedNames
pub mod LotLemmas
