pub mod DifferenceLaw
pub mod LineLaw
pub mod ListLaw
pub mod TreeLaw
pub mod VersionsLaw
pub mod PutLaws
