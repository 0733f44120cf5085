pub mod Disks
pub mod Starred
