pub mod Placed
pub mod Spelled
pub mod Read
pub mod RoundTrips
