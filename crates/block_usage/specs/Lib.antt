pub mod HtmlPages
pub mod Kinds
pub mod Maps
pub mod NewestRecords
pub mod MapTexts
pub mod OtherRoots
pub mod UsageReports
pub mod Usages
