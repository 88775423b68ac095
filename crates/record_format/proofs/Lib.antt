pub mod LawfulRecords
pub mod Many
pub mod Ascending
pub mod Appends
pub mod Pushed
pub mod Again
mod ReadFormats
pub mod PayloadLaws
pub mod ItsFlash
