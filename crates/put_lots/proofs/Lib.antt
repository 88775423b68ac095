pub mod Cuts
pub mod Last
pub mod KeptSources
