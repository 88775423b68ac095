pub mod Archives
pub mod Steps
pub mod Laws
pub mod Wholes
pub mod Naming
pub mod Things
