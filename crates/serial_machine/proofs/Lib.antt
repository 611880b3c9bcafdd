pub mod ActorTurns
pub mod SerialRuns
pub mod Standing
pub mod States
pub mod Transactions
pub mod UnitRequests
pub mod UnitSteps
