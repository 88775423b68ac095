pub mod Contents
pub mod Files
pub mod Laws
pub mod Trees
