pub mod Address
pub mod Answers
