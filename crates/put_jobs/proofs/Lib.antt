pub mod BatchLemmas
pub mod FlashLemmas
pub mod GivesLemmas
pub mod GroupLemmas
pub mod InputLemmas
pub mod MirrorLemmas
pub mod PutLemmas
pub mod SourceLemmas
