pub mod ProgramAnswers
pub mod RunAnswers
