pub mod Lots
pub mod Things
pub mod Removals
