pub mod Driven
pub mod ScheduleAnswers
