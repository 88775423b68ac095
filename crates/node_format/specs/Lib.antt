pub mod Headers
pub mod BodyNodes
pub mod Items
pub mod Directories
pub mod Edits
pub mod Order
pub mod EntryLaws
pub mod Links
