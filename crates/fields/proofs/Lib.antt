pub mod Found
pub mod NumberLaws
