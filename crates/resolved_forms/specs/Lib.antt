pub mod FormsInRange
pub mod InRange
pub mod Reach
pub mod Survey
pub mod TopSurvey
pub mod Units
pub mod Users
pub mod Uses
