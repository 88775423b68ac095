pub mod Orders
pub mod Streams
pub mod Drivers
pub mod Flashes
pub mod Starts
pub mod Attempts
