pub mod Sorted
pub mod Parts
pub mod Cut
pub mod Rules
pub mod Laws
pub mod Examples
