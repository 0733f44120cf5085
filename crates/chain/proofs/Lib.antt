pub mod Decision
pub mod View
pub mod Rows
pub mod Steps
pub mod Slots
pub mod Injective
