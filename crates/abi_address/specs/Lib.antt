pub mod Chs
pub mod Slot
