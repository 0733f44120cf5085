pub mod Kept
pub mod Changed
