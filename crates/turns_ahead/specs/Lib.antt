pub mod Leading
pub mod Next
