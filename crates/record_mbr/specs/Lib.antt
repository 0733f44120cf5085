pub mod Mbr
pub mod Fits
pub mod Uefi
