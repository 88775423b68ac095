mod NumberLemmas
mod PrintedLemmas
mod TextLemmas
mod ViewLemmas
mod SpelledLemmas
mod SerialLemmas
mod StreamLemmas
pub mod LineLemmas
mod SpellingLemmas
