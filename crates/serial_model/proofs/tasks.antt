pub mod Bounded
pub mod KnownScope
pub mod RefRows
pub mod TaskKeeps
pub mod TaskNames
pub mod TaskRows
pub mod TaskScope
pub mod TaskThings
