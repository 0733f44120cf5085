pub mod Alike
pub mod Slots
pub mod Changes
pub mod Kept
