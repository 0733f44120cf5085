pub mod Told
pub mod Over
pub mod Ranges
pub mod Said
pub mod as_written
