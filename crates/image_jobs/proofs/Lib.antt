pub mod ImageLemmas
pub mod AskLemmas
