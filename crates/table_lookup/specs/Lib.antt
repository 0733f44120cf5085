pub mod Hits
pub mod Numbers
pub mod Find
