pub mod Pages
pub mod Items
pub mod Payloads
pub mod Laws
pub mod FormatLaw
