pub mod Failures
pub mod Images
pub mod InquiryWords
pub mod LastChanges
pub mod PathWords
pub mod Tellings
