pub mod Asked
pub mod RequestAnswers
pub mod Push
pub mod Answers
