pub mod Search
pub mod Extended
