pub mod Kinds
pub mod Lines
pub mod Misreads
pub mod Replies
pub mod SpellingLaws
pub mod Streams
pub mod Verbs
pub mod Words
