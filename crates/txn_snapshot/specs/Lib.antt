pub mod Laws
pub mod Reads
pub mod SnapshotAnswer
pub mod SnapshotTask
pub mod Views
