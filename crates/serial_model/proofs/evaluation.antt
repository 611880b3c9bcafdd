pub mod Agree
pub mod Bounds
pub mod Carries
pub mod Carrying
pub mod Costs
pub mod Fitting
pub mod OperationFits
pub mod Rows
