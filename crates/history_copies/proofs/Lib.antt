pub mod Brought
pub mod Built
pub mod Ended
pub mod Seen
