pub mod IntSteps
