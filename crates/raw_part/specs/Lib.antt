pub mod Layouts
pub mod Raws
