pub mod Stored
pub mod Linked
pub mod Order
pub mod Space
pub mod Behind
