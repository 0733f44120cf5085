pub mod AsWritten
pub mod Sources
pub mod Records
pub mod Write
pub mod Answers
pub mod Ranges
