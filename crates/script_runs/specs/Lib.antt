pub mod Flashes
pub mod Memory
pub mod Plans
pub mod Scripts
pub mod Turns
