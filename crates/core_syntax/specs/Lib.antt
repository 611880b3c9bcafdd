pub mod Children
pub mod Fits
pub mod Inside
pub mod Limit
pub mod Numbers
pub mod Table
pub mod WellFormed
