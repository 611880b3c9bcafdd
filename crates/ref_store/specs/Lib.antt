pub mod Places
pub mod Pruned
pub mod Store
pub mod Version
pub mod Writes
