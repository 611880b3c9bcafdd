pub mod Committing
pub mod Effects
pub mod Letters
pub mod Settled
