pub mod ExplainLemmas
pub mod GetLemmas
pub mod MemoryWords
pub mod PutFromLemmas
pub mod ToolLemmas
