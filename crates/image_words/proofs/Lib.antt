pub mod MapPages
pub mod RawWritten
mod CreationLemmas
pub mod CopyLemmas
pub mod GetLemmas
pub mod MakeLemmas
