pub mod DrivenWorlds
pub mod ScheduleRuns
pub mod Unscheduled
