pub mod Pages
pub mod Showing
pub mod Working
pub mod Running
pub mod Trying
pub mod Bare
