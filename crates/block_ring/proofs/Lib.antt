pub mod SetBits
pub mod RingOrder
pub mod RangeCounts
pub mod SparseLists
pub mod WordChunks
pub mod BytesOfWords
