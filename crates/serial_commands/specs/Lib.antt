pub mod CheckAnswers
pub mod MakeAnswers
pub mod Outside
pub mod ReplayAnswers
pub mod ReplayWritten
pub mod Replayed
