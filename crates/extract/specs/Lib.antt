pub mod Rules
pub mod Disk
pub mod Extract
pub mod Answers
pub mod ListSpot
pub mod Cut
pub mod Header
