pub mod Answers
pub mod NoAnswers
