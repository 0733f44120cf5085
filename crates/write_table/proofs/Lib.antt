mod Steps
pub mod InPlace
