pub mod Block
pub mod Fits
pub mod Clean
pub mod Blocks
