pub mod Layover
pub mod Cut
pub mod Answers
pub mod Plan
