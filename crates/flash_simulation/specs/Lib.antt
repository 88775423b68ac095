pub mod Stored
pub mod StoredLaws
pub mod Simulation
pub mod WholePages
pub mod Images
pub mod ImageReading
