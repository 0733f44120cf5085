pub mod Sort
pub mod Free
