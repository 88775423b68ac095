pub mod FileBytes
pub mod TableLaws
pub mod WholeFileLaws
