pub mod BlockSet
pub mod Bits
pub mod Ring
pub mod RingLaws
pub mod FreeCount
pub mod SparseWords
pub mod SparseBytes
