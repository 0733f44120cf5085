pub mod Runs
pub mod Place
pub mod Size
pub mod Free
